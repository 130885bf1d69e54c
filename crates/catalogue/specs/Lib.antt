pub mod CatalogueWalks
pub mod Catalogues
pub mod Pairs

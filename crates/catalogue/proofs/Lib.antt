pub mod CatalogueSteps
pub mod Entries
pub mod Listings
pub mod Refused
pub mod Soundness
pub mod Strings

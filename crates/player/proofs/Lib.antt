pub mod Chains
pub mod Fronts
pub mod Soundness
pub mod Telling
pub mod Times

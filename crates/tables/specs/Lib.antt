pub mod Elements
pub mod Picks
pub mod Tables

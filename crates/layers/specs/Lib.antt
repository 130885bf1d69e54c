pub mod Joins
pub mod Periods

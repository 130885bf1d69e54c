pub mod Fractions
pub mod Messages
pub mod Parts
pub mod Reaches
pub mod ReaderSteps
pub mod Runs
pub mod Turns

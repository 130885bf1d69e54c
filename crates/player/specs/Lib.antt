pub mod Closures
pub mod Players
pub mod Rows
pub mod Sound
pub mod Values

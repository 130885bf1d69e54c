pub mod Bits
pub mod Digits
pub mod Filling
pub mod Fours
pub mod Restoring
pub mod Sizes
pub mod Unpacking
pub mod Undoing

pub mod Effects
pub mod Worked

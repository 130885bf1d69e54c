pub mod Opened
pub mod Refusals
pub mod Reports

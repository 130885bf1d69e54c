pub mod Filtered
pub mod InOrder
pub mod Prefixes
pub mod Sorting

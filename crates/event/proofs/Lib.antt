pub mod Clock
pub mod InBytes

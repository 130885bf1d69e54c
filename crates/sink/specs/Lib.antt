pub mod Lists
pub mod Logs
pub mod Readable
pub mod Reading
pub mod Records

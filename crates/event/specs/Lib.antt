pub mod BigEndian
pub mod Feeds
pub mod Fronts
pub mod Modes
pub mod Numbers
pub mod Sinks
pub mod Spans
pub mod Times

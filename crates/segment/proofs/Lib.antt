pub mod Closings
pub mod SegmentTurns

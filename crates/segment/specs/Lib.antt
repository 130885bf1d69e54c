pub mod Boxes
pub mod Emsgs
pub mod Lengths
pub mod Messages
pub mod SegmentWalks
pub mod Segments
pub mod Timings

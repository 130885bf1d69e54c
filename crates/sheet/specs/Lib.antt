pub mod Lengths
pub mod Messages
pub mod SheetRecords
pub mod SheetWalks
pub mod Sheets

mod Digits
mod Filling
mod Found
mod Growth
mod Parts
mod Slots
mod Undone

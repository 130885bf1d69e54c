pub mod Alphabet
pub mod Calls
pub mod Laws
pub mod Texts

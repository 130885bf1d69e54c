pub mod Insides
pub mod Reaches
pub mod Readers
pub mod Stretches
pub mod Timescales
pub mod Walks

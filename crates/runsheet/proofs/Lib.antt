pub mod CommandSteps
pub mod OpeningSteps
pub mod Reading

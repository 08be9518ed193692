pub mod ResetSteps
pub mod Marks

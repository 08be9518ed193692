pub mod WordSteps
pub mod LineSteps
pub mod Digits
pub mod Numerals

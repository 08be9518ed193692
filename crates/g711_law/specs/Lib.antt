pub mod Steps
pub mod Alaw
pub mod Mulaw
pub mod Lines

pub mod Streams
pub mod Steps
pub mod Terms

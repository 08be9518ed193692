pub mod Chunks
pub mod Passing
pub mod Reading
pub mod Search
pub mod Stops
pub mod Writing

mod Refusals
pub mod Writing
mod Ready
pub mod Closed

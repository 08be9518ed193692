pub mod Assembly
pub mod Stages
pub mod Building
pub mod Dismantling
pub mod Halting

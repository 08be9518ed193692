pub mod Holding
pub mod Purses

pub mod Adapters
pub mod Opened

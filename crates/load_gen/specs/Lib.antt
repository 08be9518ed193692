pub mod Made
pub mod Samples
pub mod Script

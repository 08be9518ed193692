pub mod Changes
pub mod Seeing
pub mod Bare
pub mod Entries
pub mod Parts

pub mod Files
pub mod Leaving
pub mod Entries
pub mod Histories
pub mod Lines

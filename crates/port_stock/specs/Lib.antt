pub mod Kept
pub mod Conditions
pub mod Entries
pub mod Rings
pub mod Blocks
pub mod Ending
pub mod Passing

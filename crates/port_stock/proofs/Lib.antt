pub mod Adding
mod Blocks
pub mod Calls
pub mod Changing
mod Ending
pub mod Finding
pub mod Keeping
pub mod Knowing
pub mod Lawful
pub mod Looking
pub mod Making
mod Passing
pub mod Places
pub mod Reading
pub mod Stocking
pub mod Telling
pub mod Turning

pub mod Ends
pub mod Asked
pub mod Steps
pub mod Wanted

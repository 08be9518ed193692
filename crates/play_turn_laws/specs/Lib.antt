pub mod Conducting
pub mod Turns
pub mod Playing
pub mod Sides

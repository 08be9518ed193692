pub mod OneVerdict
pub mod Passing
pub mod Telling

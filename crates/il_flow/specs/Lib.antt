pub mod Layouts
pub mod Places
pub mod Sound
pub mod Steps
pub mod Works

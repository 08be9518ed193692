pub mod Unnamed
pub mod StaleHandles

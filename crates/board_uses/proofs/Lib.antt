pub mod Seen
pub mod Rowing

pub mod Seats
pub mod Saying
pub mod Quiet
pub mod Books
pub mod Moves
pub mod Scenes

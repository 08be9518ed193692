pub mod Meetings
pub mod Hands
pub mod Rooms
pub mod Wholes

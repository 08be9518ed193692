pub mod Asked
pub mod Knowing
pub mod Lists
pub mod Passing
pub mod Requests
pub mod Rounds
pub mod Seats

pub mod Held
pub mod Taken
pub mod Listed
pub mod Placed
pub mod Returned

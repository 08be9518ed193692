pub mod Order
pub mod Calls
pub mod Ending
pub mod Keeping

pub mod Tests
pub mod Happened
pub mod Joining
pub mod Looking
pub mod Claiming

pub mod Sinks
pub mod Running
pub mod Ways
pub mod Told
pub mod Failing
pub mod Ends
pub mod Closed
pub mod Logged

pub mod Counts
pub mod Ending
pub mod Failing
pub mod Requests
pub mod Stepping
pub mod Workers

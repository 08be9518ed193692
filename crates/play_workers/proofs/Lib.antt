pub mod Gathering
pub mod Threads
pub mod Failures
pub mod Splitting
pub mod Ending
pub mod Joining

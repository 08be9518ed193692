pub mod Busy
pub mod Places
pub mod Entries
pub mod PortChanges
pub mod Units
pub mod Works
pub mod Files

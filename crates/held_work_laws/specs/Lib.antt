pub mod Works
pub mod Claims
pub mod Places

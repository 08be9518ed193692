pub mod Places
pub mod Returning
pub mod Landed

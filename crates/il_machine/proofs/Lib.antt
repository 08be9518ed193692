pub mod Refusals
pub mod Places
pub mod Wholes
pub mod Joined
pub mod Looking
pub mod Calm
pub mod Carrying

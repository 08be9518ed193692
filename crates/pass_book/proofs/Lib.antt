pub mod Calling
pub mod Claimed
pub mod Delivering
pub mod Few
pub mod Keeping
pub mod Noted
pub mod Seated
pub mod Telling

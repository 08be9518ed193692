pub mod Lasting
pub mod Worlds
pub mod Acts
pub mod HeaderActs
pub mod ClientActs
pub mod ObjectActs
pub mod WorkActs
pub mod Comeback

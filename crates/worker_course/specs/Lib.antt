pub mod Answers
pub mod Reasons
pub mod Seated
pub mod Sights
pub mod Runs

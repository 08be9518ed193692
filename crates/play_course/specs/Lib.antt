pub mod Running
pub mod Players
pub mod Failing
pub mod Sums
pub mod Settling
pub mod Outcomes
pub mod Courses

pub mod Casting
pub mod Changing
pub mod DueChange
pub mod Hearing
pub mod Phases

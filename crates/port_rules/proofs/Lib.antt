pub mod Walking
pub mod Passing
pub mod Resetting
pub mod Noticed
pub mod Happenings
pub mod Refusing
pub mod Idling

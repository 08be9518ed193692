pub mod Defaults
pub mod Hearings
pub mod OnePhase
pub mod Steps

pub mod Admitted
pub mod Played

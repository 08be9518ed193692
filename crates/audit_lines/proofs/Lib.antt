pub mod Pieces
pub mod Spelled
pub mod WordLengths
pub mod Short
pub mod Cut

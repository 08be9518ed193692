pub mod Compared
pub mod Left

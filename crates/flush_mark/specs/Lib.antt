pub mod Leading
pub mod Flushing

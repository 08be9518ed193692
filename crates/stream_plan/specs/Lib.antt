pub mod Faults
pub mod Misfits

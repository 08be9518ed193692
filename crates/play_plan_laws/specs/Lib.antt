pub mod Casting
pub mod Limits
pub mod Conducting
pub mod Assemblies
pub mod Endings

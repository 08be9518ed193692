pub mod AnyParts
pub mod Formats
pub mod Fronts
pub mod Inputs
pub mod Joins
pub mod Lawful
pub mod Mixing
pub mod Plain
pub mod PortFrames
pub mod Reading
pub mod Readiness
pub mod Reasons
pub mod Sinking
pub mod WholeFiles
mod WholeReads

pub mod Regions
pub mod Ownership
pub mod Lending

pub mod Runs
pub mod Weights
pub mod PortThere
pub mod GetAfterSet
pub mod Fitting

pub mod Queues
pub mod OfComponent

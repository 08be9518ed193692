pub mod Asking
pub mod Changing
pub mod Knowing
pub mod Looking
pub mod Passes
pub mod Seating

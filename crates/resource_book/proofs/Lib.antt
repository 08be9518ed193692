pub mod Best
pub mod Changing
pub mod First
pub mod Placing
pub mod Standing

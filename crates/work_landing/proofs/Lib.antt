pub mod Backs
pub mod Coming
pub mod Ends
pub mod Room
pub mod Standing
pub mod Telling

pub mod Maps
pub mod Pieces
pub mod Scaling
pub mod Bits
pub mod Mixing
pub mod ByteLanes
pub mod ByteOrder

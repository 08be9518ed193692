pub mod Effects
pub mod Files
pub mod Kinds
pub mod Manners
pub mod Mixing
pub mod Shapes
pub mod Sinking
pub mod Writing

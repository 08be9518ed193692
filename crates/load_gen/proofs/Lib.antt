pub mod Generated
pub mod ThreeFiles

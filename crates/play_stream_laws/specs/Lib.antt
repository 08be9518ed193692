pub mod Flowing
pub mod Contents
pub mod Streams
pub mod Fronts
pub mod PlayContents
pub mod PlayStreams
pub mod Parts
pub mod Sunk

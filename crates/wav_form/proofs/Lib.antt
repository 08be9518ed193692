pub mod Again
pub mod Answer
pub mod AskedFor
pub mod ChunkSearch
pub mod FormatChunk
pub mod Pieces
pub mod Putting
pub mod Read

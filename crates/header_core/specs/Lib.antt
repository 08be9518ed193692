pub mod BufferHeader
pub mod Blocks
pub mod Keys
pub mod Lending
pub mod LendingHeader
pub mod LendingStore
pub mod Rewriting

pub mod Inside
pub mod Mended
pub mod Beside

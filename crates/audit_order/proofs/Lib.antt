pub mod One
pub mod Left
pub mod InTime
pub mod Admitted
pub mod Linked
pub mod AllAsked

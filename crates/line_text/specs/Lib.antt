pub mod Lines
pub mod Lists
pub mod Numbers
pub mod ReadNumbers
pub mod Scripts
pub mod Words

pub mod Formats
pub mod Moments
pub mod Rows
pub mod Texts
pub mod Words

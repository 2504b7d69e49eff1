pub mod Found
pub mod Meanings

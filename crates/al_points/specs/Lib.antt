pub mod Depths
pub mod Meanings

pub mod Deciding
pub mod Found

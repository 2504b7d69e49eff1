pub mod Messages
pub mod Refusals

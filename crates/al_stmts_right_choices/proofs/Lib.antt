pub mod Tests
pub mod Times
pub mod Onces
pub mod Covering
pub mod Deciding

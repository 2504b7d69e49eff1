pub mod Words
pub mod Lines
pub mod Builds
pub mod Commands
pub mod Turns
pub mod Sessions
pub mod Orders

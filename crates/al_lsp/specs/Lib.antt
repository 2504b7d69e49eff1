pub mod Positions
pub mod Edits
pub mod Places
pub mod Uris
pub mod Heads
pub mod Frames
pub mod Reading

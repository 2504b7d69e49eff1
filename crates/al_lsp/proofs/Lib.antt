pub mod Wheres
pub mod Frames

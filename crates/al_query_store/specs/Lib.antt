pub mod Changes
pub mod Counting
pub mod Keyed
pub mod Marked
pub mod Marking
pub mod Reads
pub mod Stored
pub mod Units

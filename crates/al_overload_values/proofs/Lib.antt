pub mod Composed
pub mod Compounds
pub mod Faults
pub mod Marks
pub mod Seen
pub mod Worklists

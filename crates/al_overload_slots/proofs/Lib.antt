pub mod Changed
pub mod Gathered
pub mod Layers
pub mod Runs
pub mod Unchanged
pub mod TurnedNames
pub mod TurnedOperands

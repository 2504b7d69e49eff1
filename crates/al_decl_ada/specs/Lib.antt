pub mod AdaPartReading
pub mod Complete
pub mod Priorities
pub mod SubtypesAt

pub mod Operators
pub mod Predefined
pub mod PredefinedNames
pub mod Standard
pub mod StandardTypes

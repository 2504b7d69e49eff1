pub mod Chains
pub mod Faults
pub mod Logical
pub mod Names
pub mod Parses

pub mod CheckRules
pub mod Faults
pub mod Judging

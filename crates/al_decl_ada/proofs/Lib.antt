pub mod Forms
pub mod Priorities

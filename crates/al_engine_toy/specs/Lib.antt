pub mod Outcomes
pub mod Toys

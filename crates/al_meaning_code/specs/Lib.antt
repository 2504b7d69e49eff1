pub mod Running
pub mod Standing
pub mod Showing
pub mod Subset
pub mod Effects
pub mod Laws
pub mod Example

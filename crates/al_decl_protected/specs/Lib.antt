pub mod Bodies
pub mod Checks
pub mod Components
pub mod Levels
pub mod Objects
pub mod Operations
pub mod Placing
pub mod Tasks

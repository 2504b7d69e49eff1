pub mod Brought
pub mod Orders
pub mod Reasons
pub mod Runs
pub mod Sources
pub mod Told
pub mod Why
pub mod UnitReasons

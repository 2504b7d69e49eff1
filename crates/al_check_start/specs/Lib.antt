pub mod Around
pub mod PrivateNames
pub mod Starts
pub mod Subunits
pub mod UnitsAt

pub mod Extents
pub mod Listed
pub mod Stacks
pub mod Outlines
pub mod Units

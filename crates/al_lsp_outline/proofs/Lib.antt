pub mod Layers
pub mod Lasts
pub mod Nests
pub mod Listed
pub mod Added

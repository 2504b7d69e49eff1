pub mod Chains
pub mod Endings
pub mod Keys
pub mod Lookups
pub mod Pieces
pub mod Places
pub mod TextNames

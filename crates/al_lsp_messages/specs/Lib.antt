pub mod Incoming
pub mod Methods
pub mod Params
pub mod Outgoing
pub mod Values
pub mod Symbols
pub mod Places

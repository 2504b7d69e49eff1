pub mod Answered
pub mod Defined
pub mod Members
pub mod Names
pub mod Near
pub mod Only

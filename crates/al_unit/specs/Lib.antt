pub mod Laws
pub mod Libraries
pub mod Read
pub mod ReadingSeen
pub mod Readings
pub mod Texts

pub mod Device
pub mod Cuts
pub mod Input
pub mod Reading
pub mod Output
pub mod Hexadecimal

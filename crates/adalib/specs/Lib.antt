pub mod Tick
pub mod Words
pub mod Status
pub mod Program

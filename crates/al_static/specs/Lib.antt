pub mod Words
pub mod Operators
pub mod Combining
pub mod Laws

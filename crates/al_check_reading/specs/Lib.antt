pub mod Ada
pub mod ValuesHere

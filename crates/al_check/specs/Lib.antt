pub mod Ada
pub mod Laws

pub mod ChoicesTest
pub mod Laws

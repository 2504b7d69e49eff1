pub mod Laws
pub mod PrivateTypes
pub mod Units

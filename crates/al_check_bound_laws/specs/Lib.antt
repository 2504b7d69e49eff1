pub mod Cuts
pub mod Others

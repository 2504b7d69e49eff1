pub mod Moments
pub mod Cuts
pub mod Emits
pub mod HexLines

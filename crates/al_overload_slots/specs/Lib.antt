pub mod Slots
pub mod Laws
pub mod Pieces
pub mod Temporaries
pub mod Turned

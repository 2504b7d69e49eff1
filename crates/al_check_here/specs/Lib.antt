pub mod Stacks
pub mod Standings
pub mod RegionsHere
pub mod BodiesHere
pub mod Faulty
pub mod PartsHere
pub mod Ends

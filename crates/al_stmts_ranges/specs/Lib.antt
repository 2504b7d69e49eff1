pub mod ChoicesAt
pub mod LoopsAt
pub mod PerformedAt

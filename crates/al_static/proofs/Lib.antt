pub mod WordLemmas
pub mod PowerLemmas
pub mod DivisionLemmas

pub mod HomographLemmas
pub mod PlaceLemmas
pub mod SameLemmas
pub mod SymbolLemmas

pub mod ChainLemmas
pub mod LawLemmas
pub mod ReadLemmas

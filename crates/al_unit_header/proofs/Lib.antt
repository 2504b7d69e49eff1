pub mod BodyLaws
pub mod PackageLemmas
pub mod StubLemmas

pub mod NumberLemmas
pub mod Fields
pub mod NameFields
pub mod RoundTrip
pub mod Fitting
pub mod LineLemmas

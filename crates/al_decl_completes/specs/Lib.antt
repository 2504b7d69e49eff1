pub mod Matching
pub mod CompletingFound

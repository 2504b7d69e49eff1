pub mod Ascending
pub mod CheckTextReading
pub mod Faults
pub mod LibraryLemmas
pub mod ReadingLaws

pub mod Naming
pub mod FromAnswers
pub mod UnitResult
pub mod Verdicts

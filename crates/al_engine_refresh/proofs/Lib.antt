mod Ascending
pub mod BuildLemmas
pub mod BuildOrder
pub mod Comparing
pub mod Decided
pub mod Following
pub mod FoundLemmas
pub mod HandleLemmas
pub mod HandleTurned
pub mod Kept
pub mod LeftLemmas
pub mod LoopLemmas
pub mod Moves
pub mod OrderSteps
pub mod QuietLemmas
pub mod RefreshLemmas
pub mod Settings
mod Sorting
pub mod SteadyLemmas
pub mod Turning

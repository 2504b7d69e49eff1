mod Again
mod Bases
mod BuiltLemmas
pub mod Closing
pub mod Completing
mod Defined
pub mod EarlierLemmas
mod EditedThere
pub mod Entries
pub mod ExchangeLemmas
mod FileNames
pub mod Files
mod FromAnswers
mod Keeping
mod Kept
pub mod KeptLemmas
pub mod KeyOrders
mod Left
pub mod LinkLemmas
pub mod MainDefined
mod Obsolete
mod OneFaulty
pub mod OrderLemmas
pub mod Parts
pub mod PatchLemmas
pub mod PlacedLemmas
mod Readings
pub mod ReadyLemmas
mod ReasonLemmas
mod RebuildClean
mod RebuildObjects
pub mod RebuildPlacing
pub mod RecheckLemmas
pub mod RecheckSameLemmas
pub mod RenewLemmas
mod RenewingThere
pub mod Replies
mod RowLemmas
mod SameFaults
mod SameLemmas
mod SamePartitions
mod SameUnits
mod Skipping
pub mod Sound
pub mod StayLemmas
pub mod SubunitNames
mod Taken
mod Used
mod UsedBodies
mod UsedExpressions
mod UsedStatements
mod WalkLemmas
pub mod WithinLemmas

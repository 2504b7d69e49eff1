pub mod ActLemmas
pub mod BurstLemmas
mod Places
pub mod QueueLemmas
pub mod ReadLemmas
pub mod RunLemmas
pub mod StepLemmas
pub mod TickLemmas
pub mod TwinLemmas
pub mod WordsLemmas
pub mod WorldQueueLemmas
pub mod WorldRunLemmas

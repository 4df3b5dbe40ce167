pub mod KeyHistory
pub mod Projected
pub mod OfCounters
pub mod OfLeases
pub mod OfFences
pub mod OfBounds
pub mod OfSequences
pub mod OfSemaphores
pub mod OfBuckets
pub mod OfLimits
pub mod TrailTests
pub mod Openings
mod Examples

pub mod ShareLemmas
pub mod TriedLemmas
pub mod GatherLemmas
pub mod PoolLemmas
pub mod GroupLemmas

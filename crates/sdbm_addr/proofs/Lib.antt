pub mod PairLemmas
pub mod SortedPairs
pub mod MapLemmas
pub mod DatabaseLemmas
pub mod HashLemmas
pub mod DirectoryLemmas
pub mod SplittingLemmas
mod Examples
pub mod Summing

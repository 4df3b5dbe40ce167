pub mod PairLines
pub mod PairTokens
pub mod Streams
pub mod BadLines
pub mod Faults
pub mod Played

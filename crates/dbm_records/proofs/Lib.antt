pub mod Faults
pub mod NewKeys
pub mod Values
pub mod RunFaults
pub mod Alike
pub mod Whole
pub mod EachLemmas

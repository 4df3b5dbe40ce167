pub mod Matches
pub mod Examples

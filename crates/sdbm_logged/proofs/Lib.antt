pub mod Fewer
pub mod Rest
pub mod Recovers

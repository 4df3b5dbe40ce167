pub mod Saving
pub mod Sessions

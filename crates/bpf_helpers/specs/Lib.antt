pub mod Helpers
pub mod Machine
pub mod Runs
pub mod Ends
pub mod Classes

pub mod Shared
pub mod Passing
pub mod Groups
pub mod Closed
pub mod FaultText

pub mod Tasks
pub mod Shares
pub mod Pool
pub mod FaultText
pub mod Groups

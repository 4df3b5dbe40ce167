pub mod HostCalls
pub mod Sessions
pub mod Session

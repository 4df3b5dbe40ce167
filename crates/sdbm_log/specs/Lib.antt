pub mod Doing
pub mod Log
pub mod LogRuns
pub mod Places
pub mod Protocol
pub mod Saving
pub mod Steps

pub mod Outcomes
pub mod Codes
pub mod Places
pub mod Numbers
pub mod Cached
pub mod Submitted

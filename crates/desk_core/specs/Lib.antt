pub mod Jobs
pub mod Desk
pub mod Calls
pub mod Events

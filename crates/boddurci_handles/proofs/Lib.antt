pub mod Values
pub mod Handles
pub mod Tickets
pub mod Readings
pub mod Fitting
pub mod Jobs

pub mod MarkedIn
pub mod Leaves

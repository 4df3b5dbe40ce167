pub mod Turns
pub mod Noting

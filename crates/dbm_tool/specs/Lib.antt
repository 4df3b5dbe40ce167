pub mod Services
pub mod Outcomes
pub mod Endings
pub mod Clocks
pub mod Stock

pub mod Works
pub mod Worked
pub mod Leads
pub mod Acts
pub mod Rewrites
pub mod Wants

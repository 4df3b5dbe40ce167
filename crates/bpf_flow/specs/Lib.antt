pub mod Kinds
pub mod States
pub mod Steps
pub mod Tested

pub mod Tool
pub mod Wishes

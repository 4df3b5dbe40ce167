pub mod Marked
pub mod Marking

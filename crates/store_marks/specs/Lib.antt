pub mod Marks
pub mod Noted

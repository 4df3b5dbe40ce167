pub mod Arithmetic
pub mod Conditions
pub mod Spelling
pub mod Code
pub mod Rows
pub mod Stored
pub mod Decoding

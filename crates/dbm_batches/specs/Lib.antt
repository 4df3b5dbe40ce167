pub mod Causes
pub mod Batches

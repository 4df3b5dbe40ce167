pub mod Sums
pub mod Writing
pub mod Accesses
pub mod Loading
pub mod Copying
pub mod Turning
pub mod Stepping

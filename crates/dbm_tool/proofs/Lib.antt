pub mod Faults
pub mod Turns
pub mod Examples
pub mod QuickParts

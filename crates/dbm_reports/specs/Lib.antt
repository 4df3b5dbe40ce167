pub mod Databases
pub mod Notations
pub mod Words
pub mod Causes
pub mod Reports
pub mod Known
pub mod Served
pub mod FaultText

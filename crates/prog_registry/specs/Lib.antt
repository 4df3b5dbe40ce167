pub mod FaultText
pub mod Judged
pub mod Programs
pub mod Verdicts
pub mod Kept
pub mod Registry

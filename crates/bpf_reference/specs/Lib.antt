pub mod Cpu
pub mod Checked

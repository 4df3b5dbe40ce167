pub mod Leading
pub mod OneEnd
pub mod Chains

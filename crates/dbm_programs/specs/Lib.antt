pub mod Judging
pub mod Asm
pub mod Disasm
pub mod Verify
pub mod Programs

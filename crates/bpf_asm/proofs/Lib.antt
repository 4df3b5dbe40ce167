pub mod Cuts
pub mod Numbers
pub mod Tables
pub mod Mnemonics
pub mod Parts
pub mod Yielding
pub mod LabelTable
pub mod Reading
pub mod Emitting
pub mod Digits
pub mod Written
pub mod WordTexts
pub mod Printed
mod Examples

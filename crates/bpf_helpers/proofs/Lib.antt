mod AnswerFacts
mod Running
pub mod OneEnd
pub mod Lengths
mod ArithmeticExamples
mod Examples
mod HelperExamples
mod StuckExamples
pub mod Offsets

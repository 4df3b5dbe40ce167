pub mod Units
pub mod Codes
pub mod Images
pub mod Classes
pub mod RowFacts
pub mod Tells
mod SpellingExamples

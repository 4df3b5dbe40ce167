pub mod Words
pub mod Bitmap
pub mod Marks
pub mod Faults
pub mod Ends
pub mod FaultText

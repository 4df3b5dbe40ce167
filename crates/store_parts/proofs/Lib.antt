pub mod Pages
pub mod PartOf
pub mod Saved
pub mod Places

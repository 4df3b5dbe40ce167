pub mod Ties
pub mod Sound
pub mod Doing
pub mod Playing

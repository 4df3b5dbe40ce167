pub mod Cuts
pub mod InRooms
pub mod Parts
pub mod Tails
pub mod Joinable

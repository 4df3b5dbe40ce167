pub mod Growth
pub mod Held
pub mod Statuses
pub mod Asked
pub mod Pieces

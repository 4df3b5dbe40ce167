pub mod Json
pub mod Figures
pub mod Totals
pub mod Shapes
pub mod Depths
pub mod Fullest
pub mod Stats

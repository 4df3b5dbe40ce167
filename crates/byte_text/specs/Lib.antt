pub mod Numbers
pub mod Escapes
pub mod Text
pub mod Layouts
pub mod JsonValues
pub mod Bare
pub mod Writing

pub mod RowLemmas
pub mod TotalsLemmas
pub mod UsedPages
pub mod SplitsLemmas
pub mod ShapesLemmas

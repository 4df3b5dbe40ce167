pub mod BitmapLemmas
pub mod WalkLemmas
pub mod FileLemmas
mod Examples

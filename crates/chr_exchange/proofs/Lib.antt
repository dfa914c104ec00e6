pub mod Sizes
pub mod Grouped
pub mod Spelling
pub mod Listed
pub mod Sorting
pub mod Deltas
pub mod ReadBack

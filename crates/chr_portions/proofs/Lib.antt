pub mod Trees
pub mod Kept
pub mod Entries

pub mod Sums
pub mod CycleLaw
pub mod SameSymbols

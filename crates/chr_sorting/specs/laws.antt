-- What the laws of combinations and of lists at one sort say.
pub mod Combinations
pub mod FinestSorts
pub mod Lists

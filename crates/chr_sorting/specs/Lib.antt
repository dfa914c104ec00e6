pub mod FinestSorts
pub mod SortedCaseLists
pub mod laws
pub mod working

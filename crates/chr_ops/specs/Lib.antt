pub mod Ids
pub mod Operations
pub mod Joins
pub mod Summaries
pub mod Exchange
pub mod News
pub mod working

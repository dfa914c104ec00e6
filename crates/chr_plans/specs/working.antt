pub mod Searching
pub mod Choosing

pub mod Ends
pub mod Answered
pub mod Written
pub mod Sources
pub mod working

pub mod Rows
pub mod Stepping
pub mod Tables
pub mod working

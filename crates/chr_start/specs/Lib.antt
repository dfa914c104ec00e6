pub mod Statuses
pub mod working

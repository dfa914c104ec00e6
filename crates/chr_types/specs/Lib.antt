pub mod OrderTypes
pub mod Representatives
pub mod Refusals
pub mod Visits
pub mod working

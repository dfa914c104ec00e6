pub mod Wanted
pub mod Named
pub mod working

pub mod Ruled
pub mod working

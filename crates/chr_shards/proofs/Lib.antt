pub mod Sums
pub mod Places
pub mod Instances
pub mod Steps
pub mod Rests

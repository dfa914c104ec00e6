pub mod Mistakes
pub mod Heard

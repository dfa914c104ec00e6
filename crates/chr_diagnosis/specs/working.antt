pub mod Sides
pub mod Numbers

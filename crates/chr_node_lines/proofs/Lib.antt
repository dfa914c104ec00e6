pub mod Asking
pub mod Floats

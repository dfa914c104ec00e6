mod Legal
pub mod Keeping
mod Placing
mod Showing
mod Telling
mod Values

pub mod Refusals
pub mod Names
pub mod Meant
pub mod Texts
pub mod ReadBack
pub mod working

pub mod Moments
pub mod Answers
pub mod Lines
pub mod Talks

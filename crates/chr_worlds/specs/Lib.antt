pub mod Answers
pub mod Worlds
pub mod Events
pub mod Sharing
pub mod Resting
pub mod Laws
pub mod working

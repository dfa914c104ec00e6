pub mod Tie
pub mod Openings
pub mod Seats
pub mod Settling
pub mod Laws
pub mod working

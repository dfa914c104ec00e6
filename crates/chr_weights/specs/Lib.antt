pub mod Weights
pub mod Ranks
pub mod WeighedPrograms
pub mod working

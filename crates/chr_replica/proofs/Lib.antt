pub mod DeclaredSets
pub mod LeasedSums
mod Keeping
pub mod OneAnswer
mod LeaseLists
mod PoolRanks
mod PartsCut
mod States
pub mod RestedTells
pub mod Outcomes

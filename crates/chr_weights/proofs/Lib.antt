pub mod Weighing
pub mod WeightLaws
pub mod Ranks
pub mod FirstNotLowered

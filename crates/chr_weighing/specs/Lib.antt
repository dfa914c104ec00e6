pub mod Reweighing
pub mod Cycles
pub mod Weighings

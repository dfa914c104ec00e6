pub mod Members
pub mod Fronts
pub mod Sets
pub mod Growing

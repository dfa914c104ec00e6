pub mod Nodes
pub mod Refusals
pub mod working

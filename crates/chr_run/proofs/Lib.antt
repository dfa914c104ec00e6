pub mod Moving
pub mod Batches
pub mod Inputs
pub mod Outputs

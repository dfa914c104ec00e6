-- Words of private contracts and of proofs.
pub mod Notes
pub mod Weaving
pub mod Numbers
pub mod Blocks

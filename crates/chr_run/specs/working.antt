-- Words of private contracts alone.
pub mod Batches

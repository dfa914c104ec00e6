-- Words of private contracts.
pub mod Note

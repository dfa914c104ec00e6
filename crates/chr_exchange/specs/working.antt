-- Words of private contracts.
pub mod Groups

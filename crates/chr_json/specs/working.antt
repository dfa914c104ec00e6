-- Words of private contracts.
pub mod Compact

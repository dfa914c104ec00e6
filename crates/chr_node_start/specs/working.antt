-- Words of private contracts.
pub mod Hearing

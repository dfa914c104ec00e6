-- Words of private contracts.
pub mod Choices

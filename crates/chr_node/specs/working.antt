-- Words of private contracts.
pub mod Staged

-- Words of private contracts.
pub mod Surplus

-- Words of private contracts and of proofs.
pub mod Listing
pub mod Tables
pub mod Unifiers
pub mod Gathering
pub mod Beginnings

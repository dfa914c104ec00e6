-- What private contracts, fields and proofs speak of.
pub mod Groups
pub mod Resting
pub mod Firing
pub mod Making
pub mod Own
pub mod Listing
pub mod Finding
pub mod Sitting
pub mod Candidates

-- What private contracts, fields and proofs speak of.
pub mod Codes
pub mod Placed

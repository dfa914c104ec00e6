-- What private contracts and proofs speak of.
pub mod Printing
pub mod Portions

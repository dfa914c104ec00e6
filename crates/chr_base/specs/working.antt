-- What private contracts, fields and proofs speak of.
pub mod AtomLists
pub mod Bindings
pub mod Codes
pub mod Instances
pub mod Runs
pub mod Subsequences

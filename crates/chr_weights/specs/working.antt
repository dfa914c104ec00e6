-- What fields of types speak of.
pub mod Weights

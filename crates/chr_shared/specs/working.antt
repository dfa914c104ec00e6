-- What the views of types need.
pub mod Codes

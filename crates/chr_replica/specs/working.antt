-- Words of private contracts and fields.
pub mod Codes
pub mod Cuts
pub mod Joining
pub mod States

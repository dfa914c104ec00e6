pub mod Bounds
pub mod Skips
pub mod Chains
pub mod Placed
pub mod Entries

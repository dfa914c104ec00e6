pub mod Pools
pub mod Derivations
pub mod Laws
pub mod working

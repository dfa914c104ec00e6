pub mod Leases
pub mod LeastOut
pub mod Replicas
pub mod Laws
pub mod Refusals
pub mod RestedOps
pub mod Boards
pub mod working

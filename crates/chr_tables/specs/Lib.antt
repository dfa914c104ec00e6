pub mod Hashes
pub mod Contents
pub mod working
pub mod LaneRows

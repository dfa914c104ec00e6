pub mod Scans
pub mod Sealed
pub mod Changes

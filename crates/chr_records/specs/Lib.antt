pub mod Records
pub mod Laws
pub mod Checksums
pub mod Damages

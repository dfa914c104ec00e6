pub mod HashEntries
pub mod HashChains
pub mod Pairs
pub mod RangeEntries
pub mod Bounds
pub mod RangeChains

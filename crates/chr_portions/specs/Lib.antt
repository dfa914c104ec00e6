pub mod RankedPairs
pub mod working

pub mod OverlapLists
pub mod CaseLists
pub mod Refusals
pub mod UnifiedOverlaps
pub mod EqualSides
pub mod working

-- What the laws of steps and of confluence say.
pub mod Grow
pub mod Rising
pub mod Peaks
pub mod Newman
pub mod Cases
pub mod Joinability
pub mod Parts
pub mod Unification
pub mod ListedCases
-- What the laws of sorts say.
pub mod Carrying
pub mod SortedMaps
pub mod SortedLists
pub mod SortedCases

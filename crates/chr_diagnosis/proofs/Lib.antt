mod Passing
mod Counting
pub mod Verdicts
mod Proposed
mod FoundCases
mod SmallerCases
mod FirstElements
mod KeptAlone
mod Pairs

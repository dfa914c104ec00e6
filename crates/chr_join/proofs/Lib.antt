pub mod SideSteps
pub mod CaseSteps
pub mod Lists
pub mod Verdicts
pub mod OverlapPortions
pub mod UnnamedRules
pub mod CopiedRules
pub mod Confluent
pub mod OnceLists
pub mod CoverageLists
pub mod OnceVerdicts
mod RestedParts
pub mod VerdictThere
pub mod SortedConfluent
pub mod Visits
pub mod ConfluentJoins
pub mod Counted
mod CaseNumbers
pub mod EqualSides

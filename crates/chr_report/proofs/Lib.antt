pub mod Texts
pub mod Checks
pub mod Pieces
pub mod InBlocks
pub mod Cutting
pub mod Outcomes
pub mod Conversing
pub mod Holding
pub mod Inputs
pub mod Kept
pub mod Gathers
pub mod UnnamedVerdicts
pub mod OneOutput
pub mod OutputThere
mod Comes
mod Turns
mod Due

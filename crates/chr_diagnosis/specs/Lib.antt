pub mod Verdicts
pub mod Diagnoses
pub mod Judgements
pub mod Proposals
pub mod Beside
pub mod working

pub mod RuleParts
pub mod Views
pub mod TextsRead
pub mod Outcomes
pub mod Adding

pub mod Tokens
pub mod Forms
pub mod Views
pub mod Outcomes
pub mod Laws
pub mod Spellings

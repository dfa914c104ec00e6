pub mod ColumnNames
pub mod Places
pub mod Lines
pub mod BadClauses
pub mod working

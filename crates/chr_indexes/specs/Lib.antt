pub mod HashedRows
pub mod RangedRows
pub mod working

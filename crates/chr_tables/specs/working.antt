pub mod Finders
pub mod Indexes
pub mod Cells
pub mod Lanes

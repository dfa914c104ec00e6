-- Words of private contracts.
pub mod Checking
pub mod Portions
pub mod Counting
pub mod Parts
pub mod Ends
pub mod Visits

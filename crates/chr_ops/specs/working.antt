-- Words of private contracts and fields.
pub mod Codes
pub mod Entries
pub mod Kept
pub mod Joining
pub mod Merging
pub mod Walks
pub mod Outside
pub mod Covering
pub mod Gaining

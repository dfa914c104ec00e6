pub mod Moves
pub mod Receipts
pub mod Receiving
pub mod Showing

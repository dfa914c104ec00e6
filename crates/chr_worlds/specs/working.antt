-- Words of private contracts and fields.
pub mod Boards
pub mod Codes

-- Words of private contracts alone.
pub mod ReplyTexts
pub mod Resting
pub mod Obeying

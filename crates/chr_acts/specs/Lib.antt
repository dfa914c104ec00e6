pub mod Acts
pub mod Replies
pub mod Events
pub mod Journals
pub mod Books
pub mod working
pub mod JournalLaws
pub mod Receipts

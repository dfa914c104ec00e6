-- What the views of types need.
pub mod Codes
pub mod Journals
pub mod Books
pub mod Numbers

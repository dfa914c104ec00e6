pub mod Files
pub mod Feeds
pub mod working

-- What only private contracts and proofs speak of.
pub mod Search
pub mod Walks
pub mod Counting

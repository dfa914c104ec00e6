pub mod Folders
pub mod Runs
pub mod Laws

pub mod Deeper
pub mod Entries
pub mod Parts

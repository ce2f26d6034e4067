pub mod Stars
pub mod Entries

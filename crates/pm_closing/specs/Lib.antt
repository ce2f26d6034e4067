pub mod Ways
pub mod Closed

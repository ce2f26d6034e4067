pub mod Entries
pub mod Sums
pub mod Values

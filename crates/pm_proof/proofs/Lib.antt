mod Counts
mod Cutting
pub mod Copies
pub mod Scoping
pub mod Fills
pub mod Joins

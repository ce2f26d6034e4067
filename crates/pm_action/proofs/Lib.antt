pub mod Sums
pub mod Heights
pub mod Limiting
pub mod Moves
pub mod Filtered
pub mod Hands
pub mod Fresh

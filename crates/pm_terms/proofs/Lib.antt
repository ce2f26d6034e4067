pub mod Bound
pub mod Deeper
pub mod Parts

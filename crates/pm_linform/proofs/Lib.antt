pub mod Entries
pub mod Products
pub mod Dots
pub mod Bounds

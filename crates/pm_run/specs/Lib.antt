pub mod Coming
pub mod Keeping
pub mod Rows
pub mod Runs
pub mod Within
pub mod Looping
pub mod Halting

pub mod Taken
pub mod Found
pub mod Combined
pub mod Updates

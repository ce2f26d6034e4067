pub mod Members
pub mod Carried
pub mod Merged
pub mod Tested
pub mod Rewritten
pub mod Updated
pub mod Written

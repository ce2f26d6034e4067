pub mod Parting
pub mod Sources

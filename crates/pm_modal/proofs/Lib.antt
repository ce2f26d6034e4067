pub mod Three
pub mod Elims

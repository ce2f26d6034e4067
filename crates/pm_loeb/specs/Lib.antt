pub mod Calls
pub mod Spots

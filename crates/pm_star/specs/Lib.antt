pub mod Stars
pub mod Levels
pub mod Scopes
pub mod Chains

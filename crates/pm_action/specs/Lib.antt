pub mod Naming
pub mod Meanings
pub mod Acting

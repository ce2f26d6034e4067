pub mod Chaining
pub mod Facts
pub mod TwoCases

pub mod Sketches
pub mod Tests
pub mod Read

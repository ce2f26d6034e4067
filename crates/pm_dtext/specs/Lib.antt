pub mod Spelling
pub mod Ranges
pub mod Reading
pub mod Texts
pub mod Laws
pub mod Parts

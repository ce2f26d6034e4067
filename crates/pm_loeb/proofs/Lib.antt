pub mod Ending
pub mod Called
pub mod Puttings
pub mod Exchanged
pub mod Calling

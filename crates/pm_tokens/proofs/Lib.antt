pub mod Runs
pub mod Numbers
pub mod Comments
pub mod Tables
pub mod Lexing
pub mod Named
pub mod Fits
pub mod Spelled
mod Reserved

pub mod Reaching
pub mod Citing

pub mod Left
pub mod Find
pub mod Refusals
pub mod Fresh

pub mod Trees
pub mod Nodes
pub mod Cuts
pub mod Parts
pub mod Valid
pub mod Known
pub mod Joins

pub mod Resource
pub mod Forcing
pub mod Entailment
pub mod Laws
pub mod Heap

pub mod Truth
pub mod Groups
pub mod Laws

pub mod Changed
pub mod Looking

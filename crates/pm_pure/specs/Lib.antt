pub mod Goals
pub mod Cases

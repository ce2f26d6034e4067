pub mod Goals

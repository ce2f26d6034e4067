pub mod Persistence
pub mod Classes
pub mod Entries
pub mod Closing
pub mod Laws

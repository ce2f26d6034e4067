pub mod Handed
pub mod Opened
pub mod Ended
pub mod Lasting
pub mod Found
pub mod Named

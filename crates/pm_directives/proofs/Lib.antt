pub mod Chained
pub mod Begun
pub mod Named
pub mod Fronts
pub mod Allowed
pub mod Variables
pub mod Ended
pub mod Held

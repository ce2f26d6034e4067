pub mod Closing
pub mod Hands
pub mod Cases
pub mod Ending
pub mod Arrows
pub mod Fronts
pub mod Pairs
pub mod Variables

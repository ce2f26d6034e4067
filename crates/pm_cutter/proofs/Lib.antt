pub mod Steps
pub mod Going
pub mod Ending
pub mod Steady
pub mod Split
pub mod SplitFound

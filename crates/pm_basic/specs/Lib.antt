pub mod Enough
pub mod Named
pub mod Halves
pub mod Renamings
pub mod Fronts
pub mod Deals
pub mod Replacements
pub mod Losses

pub mod Wands
pub mod Onward
pub mod PremiseGoals
pub mod Besides
pub mod Applied
pub mod ClosedFormulas
pub mod Citations

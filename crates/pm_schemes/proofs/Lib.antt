mod Shifts
pub mod Scopes
mod Fitting
mod Rooms
mod Templates
pub mod Leaves
mod Binders
mod Heaps
mod Showing
mod Bodies
pub mod Depths
pub mod Sound

pub mod Following
pub mod Swept
pub mod Appended
pub mod Kept
pub mod Bounds
pub mod Behind
pub mod Acted
pub mod Variables

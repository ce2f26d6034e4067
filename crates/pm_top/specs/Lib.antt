pub mod Printed
pub mod RunTexts
pub mod Shown
pub mod Answers
pub mod Offences
pub mod Leaves
pub mod Truth

pub mod Answering
pub mod Leaving
pub mod Offences
pub mod RunAnswers
pub mod Shallow
pub mod ShownAnswers

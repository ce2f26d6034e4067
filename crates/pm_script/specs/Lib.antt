pub mod SentenceReading
pub mod Words
pub mod Stating

pub mod FormulaReading
pub mod Parts
pub mod TextReading

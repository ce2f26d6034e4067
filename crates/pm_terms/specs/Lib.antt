pub mod Operands
pub mod PureReading
pub mod Scope
pub mod Steps
pub mod TermReading

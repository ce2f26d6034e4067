pub mod FormulaGrammar
pub mod Openings
pub mod Parts
pub mod PureGrammar
pub mod TermGrammar
pub mod ReadingLaws

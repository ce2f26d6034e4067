pub mod Fitting
pub mod PatternGrammar
pub mod SentenceGrammar
pub mod SentenceLaws

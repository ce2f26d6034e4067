pub mod Callees
pub mod CountedFrom
pub mod FewTokens
pub mod SymbolCases

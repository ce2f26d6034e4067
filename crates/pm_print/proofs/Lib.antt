pub mod Divisors
pub mod FormulaCases
pub mod Joined
pub mod LineCases
pub mod Named
pub mod PureCases
pub mod TermCases

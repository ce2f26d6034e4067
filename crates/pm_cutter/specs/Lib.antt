pub mod Cutting
pub mod CuttingLaws
pub mod Spans
pub mod Machine
pub mod Fed
pub mod Splitting

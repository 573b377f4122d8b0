pub mod Texts
pub mod LineSteps
pub mod MemoryFits
pub mod LineNumber
pub mod Verdicts
pub mod Outputs

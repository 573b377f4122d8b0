pub mod Faults
pub mod Values
pub mod Contexts
pub mod Lines
pub mod Stores
pub mod Outcomes

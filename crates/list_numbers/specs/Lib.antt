pub mod Faults
pub mod Promises

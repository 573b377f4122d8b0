pub mod Parts
pub mod Demand3
pub mod Promises

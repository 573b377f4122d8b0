pub mod State
pub mod Steps
pub mod Promises

pub mod Levels
pub mod Helpers
pub mod Promises

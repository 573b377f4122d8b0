pub mod Listed
pub mod Promises

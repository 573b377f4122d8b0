pub mod Promises
pub mod Witness

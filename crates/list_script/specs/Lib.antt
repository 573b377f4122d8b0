pub mod Line
pub mod Names
pub mod Script
pub mod Promises

pub mod Fields
pub mod Word
pub mod Promises

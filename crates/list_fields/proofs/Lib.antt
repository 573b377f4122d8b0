pub mod Cuts
pub mod Words
pub mod Answers

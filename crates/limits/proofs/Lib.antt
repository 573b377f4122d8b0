pub mod Formula
pub mod Lent
pub mod Answers

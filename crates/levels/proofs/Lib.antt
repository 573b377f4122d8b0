pub mod Fills
pub mod Sixteen
pub mod Numbers
pub mod Values
pub mod Answers

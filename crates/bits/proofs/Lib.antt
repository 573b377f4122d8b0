pub mod Bits
pub mod Marks
pub mod Words
pub mod Walks

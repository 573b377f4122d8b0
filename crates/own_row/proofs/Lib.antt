pub mod Bits
pub mod Numbers
pub mod Passes
pub mod Rows
pub mod Elsewhere
pub mod Theorems

pub mod Widths
pub mod Axis
pub mod Recorders
pub mod Marked
pub mod Theorems
pub mod Example

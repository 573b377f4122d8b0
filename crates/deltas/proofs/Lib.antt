pub mod Bias
pub mod Steps
pub mod Range
pub mod Anys

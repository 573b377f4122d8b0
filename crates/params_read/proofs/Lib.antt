pub mod Readers
pub mod Fronts

pub mod Layings

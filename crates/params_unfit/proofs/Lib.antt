pub mod Beside
pub mod Fits

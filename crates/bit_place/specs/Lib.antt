pub mod Place
pub mod Seven

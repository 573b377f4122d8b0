-- what the narrow filter asks for
pub mod Ranges

pub mod Places
pub mod Sevens

pub mod Bits
pub mod EdgeBits
pub mod Classes

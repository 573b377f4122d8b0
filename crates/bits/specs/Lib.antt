pub mod Bit
pub mod Mark
pub mod Word
pub mod Walk

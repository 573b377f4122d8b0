pub mod Runs
pub mod LumaChroma
pub mod WholeTile
pub mod Theorems

pub mod Fills
pub mod Splits
pub mod Blocks
pub mod Paints
pub mod UnitTransforms
pub mod UnitsOfTransform

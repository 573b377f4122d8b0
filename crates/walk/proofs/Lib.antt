pub mod WidthsThresholds
pub mod Visits
pub mod Ranges
pub mod WalkLoop
pub mod Places
pub mod Laws

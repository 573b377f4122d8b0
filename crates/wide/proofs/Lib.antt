pub mod Clips
pub mod Totals
pub mod Rounds
pub mod Outputs

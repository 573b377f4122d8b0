-- one line of units: levels, thresholds, widths, and what a walk over its masks does
pub mod Walk
-- what the walk asks for
pub mod Ready
-- what holds of every walk
pub mod Promises

-- masks that hold the standard's edges
pub mod Holds
-- a frame that has them
pub mod Example
pub mod Promises

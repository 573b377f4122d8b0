-- A block of a call, beside the standard's frame; the edges of both
pub mod Held
-- blocks that are held
pub mod Example
-- that the calls leave the standard's edges
pub mod Promises

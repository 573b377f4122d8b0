-- the tiles of a frame, and corrections at their starts
pub mod Tiles
-- a frame that has them
pub mod Example
pub mod Promises

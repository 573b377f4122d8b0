-- a plane of a frame, from its masks, level bytes and limits
pub mod Filter
-- what filtering it asks
pub mod Ready
-- what the code is given
pub mod Types
-- one line of its units, as it is walked
pub mod Lines
-- what holds of every pass
pub mod Promises

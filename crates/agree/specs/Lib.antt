-- A block of a legal stream, as the frame knows it and as it is recorded
pub mod Legal
-- that the two agree
pub mod Promises

-- the gap rule over the whole frame
pub mod Whole
-- the samples about a superblock row
pub mod Within
-- the calls of a frame
pub mod Calls
-- a frame that they filter
pub mod Witness
-- what is promised of them
pub mod Promises

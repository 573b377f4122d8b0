-- Document 01, numbers 8 and 9.
pub mod Scan
pub mod Fits
-- What the code keeps of many cells at once
pub mod Or
-- What it all means
pub mod Promises

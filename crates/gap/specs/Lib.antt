-- A plane of units
pub mod Grid
-- Document 01, numbers 11 and 12.
pub mod Line
pub mod Lines
pub mod Numbers
pub mod Fits
-- What they mean, in document 01's words
pub mod Promises
-- What the code keeps
pub mod Track

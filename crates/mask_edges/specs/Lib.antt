-- What recording a block comes to, in whatever order it is done
pub mod Recording
-- what the code does, in its own order
pub mod Folds
-- that this is the recording
pub mod Promises

pub mod Chunks
pub mod Rows
pub mod Frames
pub mod Levels
pub mod Samples
pub mod NumbersMean

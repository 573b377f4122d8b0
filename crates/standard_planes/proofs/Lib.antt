pub mod Lines
pub mod Pieces
pub mod PieceSamples
pub mod Steps
pub mod Frames
pub mod Levels
pub mod Example

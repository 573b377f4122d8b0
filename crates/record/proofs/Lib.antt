pub mod Rooms
pub mod Stores
pub mod NearBlocks
pub mod SoundBlocks
pub mod Fills
pub mod Frames
pub mod Accepted
pub mod Answers

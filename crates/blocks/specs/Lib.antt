-- the calls for the blocks of a tile
pub mod Laid
pub mod Promises

-- The edges that the masks of a frame hold
pub mod Edges
pub mod Bit
pub mod Class
pub mod Promises

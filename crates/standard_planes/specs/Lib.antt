-- one piece as the standard filters it
pub mod Piece
-- the pieces of a frame, one after another
pub mod Frame
-- one level byte as the standard finds it
pub mod Level
-- what holds of the calls joined
pub mod Promises

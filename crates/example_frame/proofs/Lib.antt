-- what a piece leaves at an index
pub mod Places
-- the frame's samples by their index
pub mod Starts
-- its calls answer 0
pub mod Numbers
-- a list of pieces is an order of a superblock row, as a test
pub mod Orders
-- an edge on a boundary and what is above it, as a test
pub mod BoundaryTest
-- its edges
pub mod Edges
-- its samples after each pass, in either order
pub mod Samples

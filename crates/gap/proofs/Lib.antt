-- The tests mean what document 01 says
pub mod Rule
pub mod NumbersMean
-- Numbers of the plane, and its words and bits
pub mod Shapes
pub mod LineBits
pub mod Masks
pub mod StoredWords
-- The walk
pub mod LinesAtOnce
pub mod Walks
pub mod Answers
-- What it finds
pub mod WalkNumbers
pub mod ColumnPass
pub mod RowPass
pub mod Frames

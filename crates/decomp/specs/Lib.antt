-- The transform that a unit lies in
pub mod Split
-- what the tables tell
pub mod Cells
-- how the code fills them
pub mod Folds
-- that they tell the transforms
pub mod Promises

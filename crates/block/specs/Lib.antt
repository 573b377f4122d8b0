-- a block, its visible sizes and lent memory
pub mod Block
-- the tests of the numbers 4 to 7
pub mod Tests
-- what they refuse
pub mod Faults

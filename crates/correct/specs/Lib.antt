-- a tile's start, and the lines of units that are corrected there
pub mod Start
-- what a correction stores
pub mod Correct
-- the tests of the numbers
pub mod Tests
-- the two calls
pub mod Answer
-- what the numbers refuse, and what 01 promises
pub mod Faults
pub mod Promises

-- A call that filters, and its planes
pub mod Call
-- the tests of its numbers
pub mod Tests
-- what they refuse, in document 01's words
pub mod Faults
-- and that they refuse exactly that
pub mod Promises

-- what a call may look at
pub mod Own
-- and what it does not
pub mod Elsewhere
-- calls at their own moments
pub mod Turns
-- what is promised of them
pub mod Promises

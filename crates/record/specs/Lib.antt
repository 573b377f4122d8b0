-- what recording stores, in the order of the code, and the contract of the two calls
pub mod Record
-- what an accepted block leaves, in whatever order
pub mod Recorded
-- what 01 promises of them
pub mod Promises

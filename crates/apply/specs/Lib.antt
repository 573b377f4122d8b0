-- the planes that a call filters, and its contract
pub mod Apply
-- what 01 promises of it
pub mod Promises

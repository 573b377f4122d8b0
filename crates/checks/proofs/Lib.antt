-- The code meets the tests
pub mod TestsPassed
pub mod Planes
pub mod Chain
-- The tests mean what document 01 says
pub mod FaultTests
pub mod Numbers
-- What is left to the work behind them
pub mod Accepted

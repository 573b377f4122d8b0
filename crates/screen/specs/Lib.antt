-- 7.14.2's screen in units, and a block's units on it
pub mod Screen
pub mod Promises

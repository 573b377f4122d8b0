pub mod GapOfHeld
pub mod Drawn
pub mod ExampleCalls
pub mod ExampleAccepted
pub mod Examples
pub mod Theorems

pub mod TilesJoined
pub mod CorrectedBits
pub mod Edges
pub mod ComputedCalls
pub mod ExampleCalls
pub mod Examples
pub mod Theorems

pub mod Highest
pub mod Views
pub mod Shown
pub mod Agreed
pub mod Examples
pub mod Theorems

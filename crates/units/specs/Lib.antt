-- Document 01, "Units and lent memory".
pub mod Units
pub mod Layout
pub mod Frame
pub mod Memory
pub mod Masks
-- "Recording": the class of a transform's side; and the rules behind the standard's sizes
pub mod Sizes

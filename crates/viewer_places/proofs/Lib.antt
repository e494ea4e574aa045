-- The laws of a viewer, the examples, then the cases of each function.
pub mod ReachLaws
pub mod ViewerHolds
pub mod OutputRanges
pub mod ViewerExamplesHold
pub mod PlacesCases

-- The laws of a viewer's ranges, then the cases of each function.
pub mod ViewRangeLaws
pub mod ViewRangeCases

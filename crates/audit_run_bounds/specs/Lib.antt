-- How many runs there can be.
pub mod Bounds

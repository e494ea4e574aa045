-- A walk over a test file.
pub mod Walked

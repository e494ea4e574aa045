-- Outputs written one after the other.
pub mod OutputFileLaws

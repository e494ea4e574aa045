-- The first untested path of a length, and the longest untested paths.
pub mod Untested
pub mod Tasks

-- The call for the longest untested paths.
pub mod LongestPaths

-- The cases of a gate's pin count.
pub mod FitCases

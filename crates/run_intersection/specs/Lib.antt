-- What two lists of runs have in common.
pub mod Meets

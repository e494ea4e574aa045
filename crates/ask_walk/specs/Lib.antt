-- The walk over questions that are read piece by piece.
pub mod InputWalk

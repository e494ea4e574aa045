-- A load in pieces.
pub mod LoadWalk

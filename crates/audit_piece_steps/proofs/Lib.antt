-- The cases of each step, and the pieces of a file together.
pub mod StepCases
pub mod JoinedPieceLaws

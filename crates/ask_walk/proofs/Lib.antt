-- The walk over questions.
pub mod InputSteps

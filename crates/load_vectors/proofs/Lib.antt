-- A vector as it is drawn.
pub mod DrawSteps

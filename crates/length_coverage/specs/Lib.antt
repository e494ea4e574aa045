-- Answers and tasks.
pub mod LengthAnswers

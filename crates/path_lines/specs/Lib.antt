-- The text of a path. Walked says what inner functions answer.
pub mod PathText
pub mod Walked
pub mod PathExamples

pub mod Answers
pub mod BlockLines

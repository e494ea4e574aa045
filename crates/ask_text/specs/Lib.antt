-- Questions for faults, one on each line of a text, and their answers.
pub mod Questions
pub mod Pieces

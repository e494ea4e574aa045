-- Answers of the public call, then what the functions below it are asked to do.
pub mod Answers
pub mod Tasks

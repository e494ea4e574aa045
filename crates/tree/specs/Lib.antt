-- The meaning of the enums that the calls on a tree answer, a tree filled with runs, worked examples.
pub mod Answers
pub mod Each
pub mod Filling
pub mod TreesTrue
pub mod Examples

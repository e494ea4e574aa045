-- All pairs of a small block: what the call promises, and what that shows.
pub mod PairsTaken
pub mod Answers
pub mod Returned

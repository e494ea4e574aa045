-- The audit: what it promises, what its parts do, and demand 3 of the values that the calls return.
pub mod Answers
pub mod TestFile
pub mod Promised
pub mod CountedCalls

-- Runs in lent words: what the functions of `inner` promise.
pub mod RunLists
pub mod Answers

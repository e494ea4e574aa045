-- The store's calls: document 01's answer for each case of the code's enums.
pub mod Answers

-- The length of a test file, and the place Report.
pub mod JudgingCases

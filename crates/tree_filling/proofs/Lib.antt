-- A tree filled run by run, the calls, and what filled trees answer.
pub mod FillSteps
pub mod TreeFillCases

-- The cases of the calls, and the line on a refusal.
pub mod NamedTestCases
pub mod RefusingLaws

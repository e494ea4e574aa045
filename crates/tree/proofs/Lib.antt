pub mod TreeCallCases
pub mod SearchCases
pub mod ChangeCallCases
pub mod FilledLaws
pub mod VisitedLaws
pub mod ExamplesHold
pub mod EachCases
pub mod TreesHold

pub mod FoundLaws
pub mod VisitCases
pub mod ReachCases

pub mod RootLaws
pub mod SearchLaws
pub mod MergedEndLaws
pub mod MergeLaws
pub mod RemoveLaws
pub mod LookupCases

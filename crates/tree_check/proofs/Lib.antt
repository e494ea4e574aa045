pub mod TestCases
pub mod NodeTestCases
pub mod TreeTestCases
pub mod CountCases
pub mod HeadCases
pub mod TreeLaws

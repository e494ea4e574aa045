-- The cases of each function.
pub mod PinSumCases
pub mod OutputSumCases
pub mod NetRowLaws
pub mod FillCases
pub mod DescentSums
pub mod RankCases

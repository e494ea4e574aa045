pub mod HoldsLaws
pub mod CutCases
pub mod RebuildLaws
pub mod BetweenCases
pub mod ChangeCases

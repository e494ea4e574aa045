pub mod FirstLaws
pub mod FindCases
pub mod RangeCases
pub mod RunCases
pub mod LongestHolds

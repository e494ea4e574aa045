pub mod FullLengthLaws
pub mod DownCases
pub mod LongestCases

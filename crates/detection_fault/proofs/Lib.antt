pub mod WalkCases
pub mod OpenPathLaws
pub mod DetectionCases
pub mod WhichTestsHold

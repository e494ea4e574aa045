-- One edge, both edges, the place Work, the faults counted.
pub mod CoverLaws
pub mod JoinNewCases
pub mod BothLaws
pub mod EdgesLaws
pub mod WorkLaws
pub mod WorkMemory
pub mod StageLaws
pub mod TestCallLaws

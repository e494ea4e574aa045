pub mod CoverEdgeLaws
pub mod RecordEdgeLaws
pub mod BlockSteps

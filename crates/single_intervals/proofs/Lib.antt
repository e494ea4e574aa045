pub mod OpenRunLaws
pub mod StandLaws
pub mod NetSteps
pub mod EdgeLaws

pub mod CountBothLaws
pub mod CountSteps

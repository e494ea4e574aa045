pub mod ValueCases
pub mod StateLaws
pub mod EvaluationCases

pub mod ChangeLaws
pub mod RecordCases
pub mod VectorWordLaws

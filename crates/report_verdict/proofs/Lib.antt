pub mod VerdictLaws
pub mod OfRecordCases

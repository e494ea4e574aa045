-- Reports: what the calls promise, then what is written.
pub mod Answers
pub mod ReportWriting

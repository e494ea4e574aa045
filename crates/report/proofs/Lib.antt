-- The record part by part, then the cases of the comparison and of the writer.
pub mod ReportPartLaws
pub mod ReportCases
pub mod WriterCases

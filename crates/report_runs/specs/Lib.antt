-- Runs in the bytes of a report.
pub mod ReportRuns

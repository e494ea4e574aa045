-- The true report, then the public calls.
pub mod TrueReportCases
pub mod StreamCases

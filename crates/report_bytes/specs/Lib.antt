-- The bytes of a report.
pub mod Layout

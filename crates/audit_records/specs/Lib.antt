-- All records of a test file.
pub mod FileRecords

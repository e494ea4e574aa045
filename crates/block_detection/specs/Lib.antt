-- One path in a block of records.
pub mod PathWords

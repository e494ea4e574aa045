-- What the records of a block are answered.
pub mod Counts

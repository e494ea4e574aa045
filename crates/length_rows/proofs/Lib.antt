-- Counting, then rows, then the lengths of paths.
pub mod HowManyLaws
pub mod PartitionLaws
pub mod RunCountLaws
pub mod RowLaws
pub mod RowCases
pub mod PathLengthLaws
pub mod PathCountLaws
pub mod LengthsHold
pub mod LengthExamplesHold

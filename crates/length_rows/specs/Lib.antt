-- Coverage by length, then rows in memory.
pub mod Lengths
pub mod RowSums
pub mod LengthExamples

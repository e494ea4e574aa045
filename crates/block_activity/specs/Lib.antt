pub mod Layout
pub mod Marks
pub mod EdgeMarks
pub mod OffsetParts

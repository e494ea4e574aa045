pub mod WordShiftLaws
pub mod SpreadBitsCases
pub mod Gather8x8Cases
pub mod ScatterBytesCases
pub mod TransposeCases

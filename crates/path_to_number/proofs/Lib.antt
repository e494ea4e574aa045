-- Laws of partial paths, then the cases of each function.
pub mod PartialNumberLaws
pub mod NumberCases
pub mod PathReadingCases
pub mod NumberCallCases

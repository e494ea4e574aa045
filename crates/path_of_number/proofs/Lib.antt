-- Laws of partial paths and of words, then the cases of each function.
pub mod PartialLaws
pub mod PathWordLaws
pub mod DescentCases
pub mod WritingCases
pub mod PathCallCases

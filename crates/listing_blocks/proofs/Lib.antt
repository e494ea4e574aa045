-- Laws that the proofs of several functions cite.
pub mod BlockLineLaws
pub mod PartCases
pub mod PieceSteps

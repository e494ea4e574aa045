-- Laws that the proofs of this crate, or of later ones, cite.
pub mod PartCases
pub mod WalkCases
pub mod PathCases
pub mod BenchCases
pub mod PathExamplesHold

-- Laws that the proofs of several functions, or of later crates, cite.
pub mod DecimalLaws
pub mod LineLaws
pub mod ExamplesHold

-- Laws that the proofs of several functions, or of later crates, cite.
pub mod Tests
pub mod ByteLaws
pub mod VectorLaws
pub mod BitLaws
pub mod PartLaws
pub mod AheadLaws

-- Laws that the proofs of several functions, or of later crates, cite.
pub mod RoomLaws
pub mod CircuitLaws
pub mod JudgeCases
pub mod LineCases
pub mod TextCases
pub mod EndLaws
pub mod TextEndCases

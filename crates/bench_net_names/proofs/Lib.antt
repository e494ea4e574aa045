-- Laws that the proofs of this crate, or of later ones, cite.
pub mod WordLaws
pub mod TableLaws
pub mod FillCases
pub mod TieLaws

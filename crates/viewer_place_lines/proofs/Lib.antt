-- Laws that the proofs of this crate, or of later ones, cite.
pub mod PlaceLineLaws
pub mod PlaceListLaws
pub mod PlaceExamplesHold

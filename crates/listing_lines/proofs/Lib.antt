-- Laws that the proofs of this crate, or of later ones, cite.
pub mod ListingLineLaws

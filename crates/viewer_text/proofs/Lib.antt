-- Laws that the proofs of this crate cite, and that the places which are kept decide what is shown.
pub mod ViewLaws
pub mod ShownViewCases
pub mod KeptPlaces
pub mod ViewExamplesHold

-- Laws that the proofs of several functions, or of later crates, cite.
pub mod RunSteps
pub mod StoreTextLaws
pub mod CutLaws
pub mod ListedPiecesHold
pub mod ExamplesHold

-- Laws of the load's definitions, then the cases of each function.
pub mod VectorWordLaws
pub mod VectorSteps
pub mod SizeLaws
pub mod LoadCallCases
pub mod PackedVectorLaws
pub mod MoveLaws
pub mod LoadsHold
pub mod ExamplesHold

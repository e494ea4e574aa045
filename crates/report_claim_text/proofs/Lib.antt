-- The lengths of the lines, how many are shown, and examples.
pub mod LengthLaws
pub mod ShownCases
pub mod ExamplesHold

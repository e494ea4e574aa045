-- Laws of the header and of the padded counts, then those of a legal netlist that later crates cite.
pub mod HeaderCases
pub mod OnesCases
pub mod PinLaws
pub mod PaddedOutputs
pub mod PlaceLaws
pub mod OutputLaws
pub mod LoadLaws
pub mod TableLaws
pub mod LoadCases

-- Laws of counts and pins, then what a legal netlist's tables say of them.
pub mod SplitLaws
pub mod PinCases
pub mod OutputPicks
pub mod WalkTableLaws
pub mod PinStepCases

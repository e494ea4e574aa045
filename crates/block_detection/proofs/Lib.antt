pub mod ActiveLaws
pub mod WordWalkCases
pub mod FaultWordCases
pub mod GateWordCases
pub mod BlockWordCases

-- The laws of looking, then the cases of each function, then the promise over the functions' values.
pub mod LookLaws
pub mod ViewerLookCases
pub mod AskCases
pub mod ViewCases
pub mod ViewerValuesHold

pub mod PackStates
pub mod InputCases
pub mod OpenCases

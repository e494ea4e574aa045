-- Laws of the counts in an array, then the cases of each reader.
pub mod PaddedLaws
pub mod PinSteps
pub mod GateCases
pub mod PositionSteps
pub mod GateSteps

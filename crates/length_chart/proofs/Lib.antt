-- Laws that the proofs of this crate cite.
pub mod MeasureCases
pub mod LengthBarCases
pub mod ChartExamplesHold

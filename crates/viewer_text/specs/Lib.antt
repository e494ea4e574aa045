-- What a viewer is shown.
pub mod ViewText
pub mod ViewExamples

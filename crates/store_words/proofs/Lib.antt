-- Where an edge's runs stand, the checks, then what they leave known.
pub mod RunPlaceLaws
pub mod ZeroSteps
pub mod CheckSteps
pub mod SoundLaws

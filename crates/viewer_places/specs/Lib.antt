-- A viewer: what he is, what he is answered, that he learns nothing else, and examples.
pub mod Viewer
pub mod ViewerExamples

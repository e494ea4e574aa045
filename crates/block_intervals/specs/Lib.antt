pub mod Layout
pub mod Spans
pub mod PinSpans
pub mod LiveOutputs
pub mod Sections

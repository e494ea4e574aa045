pub mod OpenRuns
pub mod Edges
pub mod Nets

-- Runs of both edges.
pub mod ViewRuns

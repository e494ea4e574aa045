pub mod Cases
pub mod PlaceRuns
pub mod Walks

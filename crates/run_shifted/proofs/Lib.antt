-- The runs of a place that is open or not, then the cases of the loops over places.
pub mod OpenNetLaws
pub mod PlaceRunSteps

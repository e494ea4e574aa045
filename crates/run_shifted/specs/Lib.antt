-- Runs of places one after the other.
pub mod RunsOfPlaces

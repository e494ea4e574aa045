-- Output places as text, and what the reader of a line and of a text answers.
pub mod Places
pub mod PlaceReading
pub mod PlaceExamples

-- The walk piece by piece, then the length of the whole file.
pub mod ReadingCases
pub mod FileCases

-- The words of a line: their cases, their lengths.
pub mod WordCases
pub mod WordLengths

-- The words of the lines on a refused report.
pub mod ClaimWords

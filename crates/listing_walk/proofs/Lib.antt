-- The listing's walk: piece by piece, then the lines after those of the records.
pub mod ListingCases

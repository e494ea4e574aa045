-- The listing is its first line and what follows it; then the cases of the functions.
pub mod ListingHeadHolds
pub mod HeadCases

-- The listing's walk over a test file.
pub mod ListingWalk

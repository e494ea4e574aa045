-- The lines of a listing, one by one.
pub mod ListingLines

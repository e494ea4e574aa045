-- The first line of a listing.
pub mod ListingHead

pub mod Listing
pub mod StoreText
pub mod Pieces
pub mod Example

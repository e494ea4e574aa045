-- A file read in pieces, whatever is done with them.
pub mod ReadPieceLaws

-- The steps of an audit in pieces, and the pieces of a file.
pub mod Steps
pub mod JoinedPieces

-- What a space holds of a file that was read in pieces.
pub mod Space

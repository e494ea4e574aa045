-- Document 01's table of starred examples.
pub mod Starred

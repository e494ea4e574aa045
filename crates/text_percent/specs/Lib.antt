-- Shares of the paths as text.
pub mod Shares

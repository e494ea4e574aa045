-- The pin and the output that a number goes through.
pub mod Picks

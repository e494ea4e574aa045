-- The sentences of the refusals, and the line of the version.
pub mod Conditions
pub mod Version

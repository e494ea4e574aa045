-- The names of the nets of a.bench text, and the table of them.
pub mod NetNames
pub mod Table
pub mod Tie

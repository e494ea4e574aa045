-- Definitions that the contracts of this crate, and of the crates that load a netlist, cite.
pub mod Places
pub mod Tables
pub mod Answers
pub mod Reading

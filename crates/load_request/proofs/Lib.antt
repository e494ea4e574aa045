-- The cases of load.bin.
pub mod RequestCases

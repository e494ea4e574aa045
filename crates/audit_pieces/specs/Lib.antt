-- The audit in pieces: what each public call promises, then the pieces together.
pub mod Calls
pub mod Together

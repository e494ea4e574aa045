-- The true report of a test file that was walked over, then what the public calls promise.
pub mod TrueReport
pub mod Streams

-- What is false in a report, besides the answers of the calls.
pub mod Differences
pub mod FirstClaim

-- What a viewer sees, by ranges of path numbers.
pub mod Ranges

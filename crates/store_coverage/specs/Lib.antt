-- What a test adds to a store: one edge, both edges, one record, the faults counted.
pub mod Covers
pub mod Both
pub mod Stage
pub mod TestCall

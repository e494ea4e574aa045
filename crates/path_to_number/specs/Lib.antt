-- The number of a path, and the answer of the public call.
pub mod PathNumbers

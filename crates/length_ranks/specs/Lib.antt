-- The rows of nets in memory.
pub mod NetRows

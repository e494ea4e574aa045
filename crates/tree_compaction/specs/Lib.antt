-- what our own functions promise each other
pub mod Compaction

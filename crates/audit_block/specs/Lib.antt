-- The records of a test file, and one block of them.
pub mod RecordsTaken
pub mod FileBlocks
pub mod VectorBlocks

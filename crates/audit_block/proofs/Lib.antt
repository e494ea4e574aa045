-- The lent memory, the tables of a netlist for blocks, the test calls with records in order, the records of a block among those of a file, and the ends of a block.
pub mod MemoryLaws
pub mod TakenRecordLaws
pub mod BlockFileLaws
pub mod TableCases
pub mod VectorCases
pub mod BlockTakeCases

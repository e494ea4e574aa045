-- The records of a test file block by block, the tables that they are taken with, and what is handed over before them.
pub mod FileBlockSteps
pub mod FileTableCases
pub mod ReadyLaws

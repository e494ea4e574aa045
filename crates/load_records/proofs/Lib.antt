-- A test record as it is written.
pub mod TestPutLaws

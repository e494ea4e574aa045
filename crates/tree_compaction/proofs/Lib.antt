pub mod HeadLaws
pub mod CompactionCases

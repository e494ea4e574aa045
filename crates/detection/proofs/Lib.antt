pub mod TestCaseLaws
pub mod SetLaws
pub mod AddedLaws
pub mod KeptLaws
pub mod PlaceRunLaws
pub mod DetectedLaws

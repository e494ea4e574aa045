-- The end of an audit.
pub mod FileJudging

pub mod Covering
pub mod Listed
pub mod BlockStage

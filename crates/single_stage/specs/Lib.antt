-- One record at the place Work.
pub mod LegalStage

-- The vectors of a record, and both edges of a store.
pub mod LegalStageLaws
pub mod BothEdgeLaws

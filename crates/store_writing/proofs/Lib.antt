-- Runs and zeros over an edge's places, then one edge's runs in a store.
pub mod EdgeWriteLaws
pub mod EdgeWriteCases

-- What writing an edge's runs leaves of a store's words.
pub mod Writing

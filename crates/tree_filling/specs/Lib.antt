-- The runs of a store as trees.
pub mod TreesOfStore

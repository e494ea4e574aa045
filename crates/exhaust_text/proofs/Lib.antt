-- The lines of a store and its first faults; that the store is the one that all pairs leave; examples.
pub mod StoreLineCases
pub mod BlockShownCases
pub mod BlockExamplesHold

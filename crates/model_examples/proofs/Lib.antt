-- The small examples of document 02, then the starred ones.
pub mod ExamplesHold
pub mod StarredHold

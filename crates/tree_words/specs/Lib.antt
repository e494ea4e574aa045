-- The interval 2-3 tree of document 004, section 3.1, over lent words. For a buyer: the tree, its words, the calls.
pub mod TreeShape
pub mod TreeLayout
pub mod Ways
pub mod Calls
-- what our own functions promise each other
pub mod Nodes
pub mod KeptRuns

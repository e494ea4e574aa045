-- What all pairs of a netlist show, as text; examples.
pub mod BlockText
pub mod BlockExamples

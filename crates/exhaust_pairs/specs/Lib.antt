-- All pairs of a small block: their records, the call that applies them, what is claimed of it, and examples.
pub mod AllPairs
pub mod Exhaust
pub mod HeldPairs
pub mod ExhaustExamples

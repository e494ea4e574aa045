-- The faults that a store does not hold, what the search for them does, that no legal test detects those that all pairs leave; examples.
pub mod Undetected
pub mod Searches
pub mod NeverDetected
pub mod UndetectedExamples

-- The lines on the faults that a store does not hold.
pub mod UndetectedText

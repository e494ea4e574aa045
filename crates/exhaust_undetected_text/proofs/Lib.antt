-- The parts of the lines, and how long they are.
pub mod UndetectedLineCases

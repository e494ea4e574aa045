-- The search for the first number in no run and for the first fault that is not held, the list of these faults, and what it says after all pairs.
pub mod FreeLaws
pub mod FirstLaws
pub mod NotHeldLaws
pub mod ListedCases
pub mod UndetectedHolds
pub mod UndetectedExamplesHold

-- Places in ascending runs, the steps from range to range, and the first false claim.
pub mod RunCases
pub mod RangeCases
pub mod HeldLaws
pub mod FirstClaimLaws

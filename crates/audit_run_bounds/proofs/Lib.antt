-- Refusals that are never given, then the bounds.
pub mod AvoidLaws
pub mod BoundsHold

-- The places Test and Store, then the call.
pub mod CallPlaceLaws
pub mod CallLaws

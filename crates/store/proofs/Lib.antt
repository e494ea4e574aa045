-- The store's words asked, then the public calls.
pub mod AskedSteps
pub mod CallSteps

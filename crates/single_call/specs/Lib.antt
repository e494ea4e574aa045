-- The test call.
pub mod TestPromise

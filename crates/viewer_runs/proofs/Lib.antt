-- The cases of each function.
pub mod SeenRunCases
pub mod ViewWriteCases

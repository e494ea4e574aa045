-- The pieces of a load are what the program writes; then the cases of the functions.
pub mod WalkHolds
pub mod WalkCases

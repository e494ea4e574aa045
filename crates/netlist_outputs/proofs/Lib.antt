pub mod OutputCases

-- The cases of each function.
pub mod RowPairs
pub mod HeldCases
pub mod CountingCases
pub mod LengthCallCases

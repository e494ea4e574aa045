-- Laws that the proofs of this crate cite.
pub mod ColumnLaws
pub mod HeldShareCases
pub mod TotalLaws
pub mod LengthRowCases
pub mod TableCases
pub mod TableExamplesHold

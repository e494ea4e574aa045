-- The lines on a refused report.
pub mod Claims

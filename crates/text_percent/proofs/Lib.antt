-- Thousandths by addition, the parts of a share, their lengths.
pub mod ShareLaws
pub mod ShareCases
pub mod ShareLengths

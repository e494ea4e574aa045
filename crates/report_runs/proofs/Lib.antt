-- Numbers in bytes, places in runs, ascending runs, and the runs that a report names.
pub mod EightByteLaws
pub mod RunByteLaws
pub mod OrderCases
pub mod AscendLaws
pub mod ClaimLaws

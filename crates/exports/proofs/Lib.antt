-- The answers of the calls beneath are those of document 01.
pub mod NumberedLaws
pub mod CallCases
pub mod ViewerCallsHold

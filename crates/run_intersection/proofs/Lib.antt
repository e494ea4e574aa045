-- The laws of common runs, then the cases of the walk.
pub mod MeetLaws
pub mod MeetCases
